pub mod Lines
pub mod LinesClaim
