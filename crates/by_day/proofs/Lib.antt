pub mod Behind
pub mod Days
pub mod Earliest
pub mod Reached
pub mod Standing
pub mod Walked
pub mod Years
