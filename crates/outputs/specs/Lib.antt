-- The pulse outputs: one output, the four, and how the code works them out.
pub mod Outputs
pub mod Four
pub mod Plan
