pub mod Distances
pub mod Weights
