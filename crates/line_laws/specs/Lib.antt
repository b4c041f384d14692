pub mod Floats
pub mod Rows
pub mod Numbers
