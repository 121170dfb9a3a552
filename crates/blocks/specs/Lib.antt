pub mod Put
pub mod Blocks
