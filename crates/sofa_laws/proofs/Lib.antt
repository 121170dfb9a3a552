pub mod Host
pub mod Bare
pub mod Numbers
