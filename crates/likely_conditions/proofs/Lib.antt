pub mod Exactly
pub mod Beyond
