pub mod Laws
pub mod Back
