pub mod Blast
