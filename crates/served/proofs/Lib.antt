-- What is served is a run, and what holds of every run holds of the desk.
pub mod Sitting
pub mod Served
pub mod Starts
pub mod Begun
pub mod Refused
pub mod Holds
pub mod Contract
