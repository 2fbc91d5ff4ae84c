-- Laws of the settings that no one function owns.
pub mod Floats
pub mod Numbers
pub mod Laws
