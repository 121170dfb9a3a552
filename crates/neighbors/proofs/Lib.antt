pub mod Fixed
pub mod Going
pub mod Table
pub mod Around
pub mod Directions
