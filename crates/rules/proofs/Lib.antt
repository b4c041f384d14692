mod Scaled
pub mod Means
pub mod Closest
pub mod Laws
