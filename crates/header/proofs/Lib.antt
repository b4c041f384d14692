pub mod Chunks
pub mod Ends
pub mod Turns
