pub mod Numbers
pub mod Wrote
pub mod Puts
