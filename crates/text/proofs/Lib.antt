pub mod Reading
pub mod Printing
pub mod Bytes
pub mod Chunks
pub mod Keys
