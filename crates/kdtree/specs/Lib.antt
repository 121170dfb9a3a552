pub mod Geometry
pub mod Tree
pub mod Search
pub mod Unpruned
pub mod Insert
pub mod Nearest
