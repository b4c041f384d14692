pub mod EditExactly
mod Sources
pub mod EditPlain
pub mod EditZero
