pub mod Printed
pub mod PrintedC1
pub mod Heats
