pub mod Gap
pub mod Distance
