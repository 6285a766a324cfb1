pub mod Simulations
pub mod Opposites
pub mod Boths
pub mod LevelShapes
pub mod Paths
