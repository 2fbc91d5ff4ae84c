-- The readout read back.
pub mod Reader
