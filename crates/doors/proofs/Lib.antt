-- Laws of the doors.
pub mod Apart
pub mod Fixed
pub mod Kept
pub mod Laws
pub mod Stays
