pub mod Seal
pub mod Cases
