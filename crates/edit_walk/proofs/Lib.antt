pub mod Merging
pub mod Parts
pub mod Behind
