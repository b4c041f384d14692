pub mod Back
pub mod History
