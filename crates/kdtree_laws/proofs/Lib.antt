pub mod Lists
pub mod Box
pub mod Pruned
pub mod First
pub mod Rep
pub mod Sides
pub mod Filled
pub mod Demand3
