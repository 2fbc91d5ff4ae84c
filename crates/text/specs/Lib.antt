-- What the lines of the bench mean.
pub mod Echoes
pub mod Entries
pub mod Hex
pub mod Numbers
pub mod Words
