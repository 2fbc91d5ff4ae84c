-- Laws of one measuring cycle.
pub mod Exact
pub mod Fixed
pub mod Join
pub mod Laws
