pub mod Days
pub mod Year
pub mod Edited
pub mod Exactly
