pub mod Gap
pub mod Close
pub mod Rounding
