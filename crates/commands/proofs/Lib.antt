-- Of the number of a refusal.
pub mod Refused
