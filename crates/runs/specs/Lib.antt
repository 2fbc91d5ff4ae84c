-- Runs of the corrector: what their history says, what they put on the counters and into the stores, and what the fault card says exactly.
pub mod Run
pub mod Exactly
pub mod Rows
pub mod Never
pub mod History
pub mod Open
pub mod Stale
pub mod InForce
pub mod Locks
pub mod Sums
pub mod Outputs
pub mod Latches
pub mod Lines
pub mod Readouts
pub mod Last
