pub mod Rising
pub mod Cut
pub mod Growing
pub mod Lists
mod Ends
pub mod Brought
