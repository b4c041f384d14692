pub mod Plan
pub mod Order
