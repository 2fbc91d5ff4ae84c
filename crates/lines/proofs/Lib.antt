-- Laws that the proofs of this crate, and of those above it, cite.
pub mod Cuts
pub mod Fronts
pub mod Kept
