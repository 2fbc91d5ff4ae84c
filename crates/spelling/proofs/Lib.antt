-- Laws of texts and digits put into bytes.
pub mod Puts
pub mod Spelled
pub mod Lent
pub mod Alike
pub mod Spells
pub mod Appended
