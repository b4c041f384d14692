pub mod LikelyLine
