pub mod PrintedB3
pub mod Solutions
