-- One measuring cycle.
pub mod Cycle
pub mod Plan
