pub mod WhichTable
pub mod Laws
