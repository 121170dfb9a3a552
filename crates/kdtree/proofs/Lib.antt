pub mod Step
pub mod Nodes
pub mod Whole
pub mod OneProduct
pub mod Corners
pub mod Plane
pub mod Sides
