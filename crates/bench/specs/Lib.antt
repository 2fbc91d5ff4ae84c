-- What the bench does between a read and a write.
pub mod Bench
