-- Laws of one session: its rows, and what its commit puts in force.
pub mod Force
mod Made
pub mod Rows
