pub mod LikelyWords
