pub mod EditConditions
pub mod EditClaim
pub mod Examples
