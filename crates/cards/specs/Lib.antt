pub mod Distances
pub mod Register
