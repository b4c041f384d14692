pub mod LikelyListing
pub mod Shown
