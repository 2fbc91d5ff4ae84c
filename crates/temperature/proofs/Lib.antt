-- The floats of the temperature: the range's two ends, twice a float, and what the nearest whole number is held to.
mod Range
mod Half
mod Twice
pub mod Nearest
pub mod Examples
