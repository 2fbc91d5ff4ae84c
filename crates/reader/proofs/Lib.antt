-- Laws of the reader.
pub mod Digits
pub mod Places
pub mod Compared
pub mod Back
pub mod Laws
pub mod Fixed
