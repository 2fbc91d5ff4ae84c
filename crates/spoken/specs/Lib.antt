-- Lines of text put to a desk, as runs.
pub mod Spoken
pub mod SoFar
