pub mod LinesExactly
pub mod LinesPlain
