-- The laws of a part of an array that is lent.
pub mod Laws
