pub mod Answers
pub mod Order
pub mod Number
