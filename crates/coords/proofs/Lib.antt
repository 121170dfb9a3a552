pub mod Triplets
pub mod Radii
pub mod Places
pub mod Size
pub mod Arcs
pub mod Remainder
