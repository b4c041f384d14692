pub mod Order
pub mod Claim
pub mod Found
