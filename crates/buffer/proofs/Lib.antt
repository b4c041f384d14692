pub mod Laws
mod Ends
