pub mod Keeps
pub mod Turns
pub mod Turning
pub mod Whole
pub mod Order
pub mod Enough
pub mod Each
pub mod Texts
