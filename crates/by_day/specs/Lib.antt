pub mod Day
pub mod Year
pub mod Kept
