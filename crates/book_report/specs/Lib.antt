pub mod Lines
pub mod Reach
