-- Every case by hand holds.
pub mod Table
pub mod Same
