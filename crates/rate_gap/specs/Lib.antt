pub mod Fractions
pub mod Exact
pub mod Claim
pub mod RateLines
pub mod Vectors
pub mod Agreed
