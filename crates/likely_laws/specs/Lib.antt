pub mod Numbers
pub mod Printed
pub mod Exhibits
pub mod Cases
