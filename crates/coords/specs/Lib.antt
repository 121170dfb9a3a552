pub mod Coords
pub mod Arrays
pub mod Moderate
