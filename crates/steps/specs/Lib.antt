-- What each command does.
pub mod Step
