-- Laws that the proofs of this crate cite, and what follows for the input as a whole.
pub mod Lost
pub mod Parts
