pub mod Conditions
pub mod Claim
