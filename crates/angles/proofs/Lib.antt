-- What the functions' proofs cite: bounds, and the steps branch by branch.
pub mod Steps
pub mod Rounding
pub mod Seek
pub mod Ratio
pub mod Sides
pub mod Cert
pub mod Axis
pub mod Nested
