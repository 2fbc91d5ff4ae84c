-- The order of the sessions.
pub mod Order
