-- Laws of the readings that the device cites: a mode of 0 never alarms, and what is taken lies in the ranges of the settings.
pub mod Off
pub mod Bounds
pub mod Order
