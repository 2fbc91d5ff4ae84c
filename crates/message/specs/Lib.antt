-- The data message of a readout.
pub mod Message
