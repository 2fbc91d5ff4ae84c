-- The device and its stores in one plain value.
pub mod Desk
