pub mod Found
pub mod Ordering
pub mod Order
