-- Lines by the block.
pub mod Lines
