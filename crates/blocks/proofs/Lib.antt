pub mod Into
pub mod Writers
pub mod Values
pub mod Rooms
