pub mod Factors
pub mod Columns
