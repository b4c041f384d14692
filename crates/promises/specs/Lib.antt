pub mod Buffer
pub mod Old
pub mod Starred
pub mod Solutions
pub mod Sheds
pub mod Blasts
pub mod SentBack
pub mod Prefixes
