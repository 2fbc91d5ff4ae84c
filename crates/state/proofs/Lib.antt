-- Laws of the fault card and of the state, that the crates above cite.
pub mod Below
pub mod Card
pub mod Sound
