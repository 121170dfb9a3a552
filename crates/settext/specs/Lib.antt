pub mod State
pub mod Lines
