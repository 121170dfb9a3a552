pub mod Rust
pub mod Coords
pub mod Kdtree
pub mod Lookup
pub mod Hrtf
pub mod Neighbors
pub mod Interpolate
pub mod Reader
