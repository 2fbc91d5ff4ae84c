-- What the contracts of the readings cite.
pub mod Taken
pub mod Pressure
pub mod Compressibility
pub mod Temperature
pub mod Kelvin
pub mod Plan
