pub mod LikelyScenario
