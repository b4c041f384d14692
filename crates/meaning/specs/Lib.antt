pub mod Reading
pub mod States
pub mod Inverse
pub mod Same
pub mod Ranges
