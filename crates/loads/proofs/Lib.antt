pub mod Ways
pub mod Bare
