pub mod RoundedUp
pub mod Hex
pub mod Examples
pub mod Values
