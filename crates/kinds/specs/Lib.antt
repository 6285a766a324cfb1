pub mod Places
pub mod Path
pub mod LevelShape
pub mod Opposite
pub mod Both
pub mod KindCases
pub mod QuarterMarks
