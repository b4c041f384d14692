pub mod Ends
pub mod Kept
pub mod Only
