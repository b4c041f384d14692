pub mod Prefix
pub mod Claim
