pub mod Count
pub mod Left
pub mod Laws
