-- The doors, and how a commit is kept until it is written.
pub mod Doors
pub mod Plan
