pub mod Printed
pub mod Rules
pub mod Cuts
pub mod Carried
