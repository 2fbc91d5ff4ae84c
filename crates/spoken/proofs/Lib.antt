-- What is put out to lines of text is what the runs among them say.
pub mod Answered
pub mod Buffers
pub mod Spoken
pub mod Pieces
pub mod ByReads
pub mod Holds
pub mod Contract
pub mod Steps
