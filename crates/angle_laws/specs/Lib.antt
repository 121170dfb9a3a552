-- Document 01's "Angles": S and C, and what is asked of an arctangent.
pub mod Series
pub mod Angle
pub mod Asked
pub mod Examples
