-- Laws that the proofs of this crate cite.
pub mod Bytes
pub mod Cut
pub mod Digits
pub mod Fixed
pub mod Floats
pub mod Lent
pub mod Puts
pub mod Unhexed
