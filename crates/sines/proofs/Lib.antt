-- What the functions' proofs cite: bounds, and the steps branch by branch.
pub mod Bounds
pub mod Scan
pub mod Range
pub mod Waves
