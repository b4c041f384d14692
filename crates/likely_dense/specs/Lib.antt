pub mod PrintedDense
pub mod Columns
