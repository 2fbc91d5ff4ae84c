-- Laws of the message.
pub mod Check
pub mod Laws
pub mod Whole
pub mod Fixed
