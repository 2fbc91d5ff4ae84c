-- The plans are the paper's answers; the laws; no freedom.
pub mod Fixed
pub mod Laws
pub mod Buffer
pub mod Planned
