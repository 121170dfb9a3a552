pub mod Few
pub mod Found
