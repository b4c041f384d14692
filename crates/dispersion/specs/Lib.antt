pub mod PrintedChemical
pub mod Tables
pub mod Rows
