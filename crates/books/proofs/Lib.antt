-- Laws of the books.
pub mod Laws
