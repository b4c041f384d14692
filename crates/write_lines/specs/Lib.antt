pub mod Writing
pub mod Accepted
