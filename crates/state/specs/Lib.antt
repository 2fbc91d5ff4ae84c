-- The state, and the order of refusals.
pub mod State
pub mod Card
