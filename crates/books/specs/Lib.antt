-- The three books, and how the code stores lines in them.
pub mod Books
pub mod Plan
