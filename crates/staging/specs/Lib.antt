-- One session, and how the code keeps its commit until it is written.
pub mod Staging
pub mod Plan
