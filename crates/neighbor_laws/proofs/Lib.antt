pub mod Settled
pub mod Absent
pub mod Caps
pub mod Answered
