pub mod Fills
pub mod Changed
pub mod Views
pub mod Lines
pub mod Accepted
