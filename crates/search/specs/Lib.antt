pub mod Rising
pub mod Laws
pub mod Places
pub mod PlaceLaws
pub mod Flat
pub mod Arms
