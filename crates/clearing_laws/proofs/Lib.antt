pub mod Cleared
pub mod Faces
pub mod Listed
pub mod Alone
