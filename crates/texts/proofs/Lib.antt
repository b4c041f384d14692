pub mod Accepted
pub mod Longest
pub mod Meanings
pub mod Texts
pub mod Told
