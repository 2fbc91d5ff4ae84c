-- Answers, and the stores with them.
pub mod Answers
