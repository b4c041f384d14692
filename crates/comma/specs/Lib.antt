pub mod Line
pub mod Text
pub mod Strict
pub mod Stages
pub mod Examples
pub mod CardLaws
