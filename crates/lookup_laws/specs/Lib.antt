pub mod Loaded
pub mod Clamp
