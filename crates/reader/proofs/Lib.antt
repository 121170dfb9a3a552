pub mod Near
pub mod Ways
