mod Halving
pub mod Laws
