-- What the contracts of the temperature cite.
pub mod Equation
pub mod Nearest
