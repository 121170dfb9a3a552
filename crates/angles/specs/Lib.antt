-- The words of the contracts: the exact steps of docs/ANGLES.md, and what the calls answer.
pub mod Guess
pub mod Arc
pub mod Says
