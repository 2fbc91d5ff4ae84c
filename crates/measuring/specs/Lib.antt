-- What one cycle measures, and how the code works it out.
pub mod Measuring
pub mod Plan
