-- The words of the contracts: the exact steps of docs/ANGLES.md.
pub mod Steps
pub mod Sines
