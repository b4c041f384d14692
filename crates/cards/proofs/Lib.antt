pub mod Cut
pub mod Ends
pub mod Laws
pub mod Walked
