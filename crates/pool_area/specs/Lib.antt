pub mod Pool
pub mod Laws
