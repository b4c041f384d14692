pub mod PrintedNeutral
pub mod Numbered
