-- No freedom.
pub mod Fixed
