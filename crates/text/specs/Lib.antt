pub mod Number
pub mod Print
pub mod Values
pub mod Lines
pub mod Machine
pub mod Words
pub mod Keys
