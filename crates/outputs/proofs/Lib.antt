-- Laws of the pulse outputs.
pub mod Choices
pub mod Wholes
pub mod Buffers
pub mod Whole
pub mod Guarded
pub mod All
pub mod Credited
pub mod ByHand
