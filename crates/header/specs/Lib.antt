pub mod Header
pub mod InTurn
