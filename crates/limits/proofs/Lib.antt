pub mod Lines
pub mod Values
pub mod Passed
pub mod Ends
