pub mod Drawn
pub mod Turns
pub mod Bare
pub mod Way
pub mod Same
