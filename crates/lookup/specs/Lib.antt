pub mod Build
pub mod Lookup
