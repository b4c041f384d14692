pub mod Printed
pub mod PrintedB1
pub mod PrintedB2
pub mod PrintedB4
pub mod Exhibits
pub mod Lines
pub mod Laws
