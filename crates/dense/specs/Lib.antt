pub mod PrintedDense
pub mod Grids
