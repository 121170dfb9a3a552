pub mod Turns
pub mod Inside
pub mod Answered
