mod Ends
pub mod ByPlace
