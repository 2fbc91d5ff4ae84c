-- The settings: their table, which values fit, and the rights.
pub mod Texts
pub mod Settings
