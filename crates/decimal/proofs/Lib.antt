pub mod DigitLaws
pub mod Laws
mod Turns
