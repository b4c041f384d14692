pub mod Line
pub mod Readings
pub mod Numbers
