pub mod PrintedChemical
pub mod LikelyTables
