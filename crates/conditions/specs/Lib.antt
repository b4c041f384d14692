pub mod Conditions
pub mod First
pub mod Claim
pub mod Led
