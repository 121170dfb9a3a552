pub mod Listed
pub mod Step
