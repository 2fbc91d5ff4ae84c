-- A whole state stays whole, and any other stays as it is.
pub mod Keeps
