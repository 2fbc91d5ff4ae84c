-- What the factor is.
pub mod Factor
pub mod Plan
