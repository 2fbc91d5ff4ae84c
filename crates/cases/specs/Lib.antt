-- The cases by hand.
pub mod Cases
