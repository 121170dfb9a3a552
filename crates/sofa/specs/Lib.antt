pub mod Border
pub mod Tree
pub mod Convert
pub mod Set
