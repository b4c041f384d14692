pub mod Claim
pub mod Conditions
pub mod Examples
