pub mod Exhibits
pub mod Stages
