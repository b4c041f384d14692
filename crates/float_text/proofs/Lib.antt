mod Ends
pub mod Cases
pub mod HexLaws
pub mod UpLaws
