-- What the code does for a command is the command's step.
pub mod Ways
