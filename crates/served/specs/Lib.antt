-- Lines put to a desk, as runs.
pub mod Served
