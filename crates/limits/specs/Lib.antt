pub mod Allowed
pub mod Refusals
