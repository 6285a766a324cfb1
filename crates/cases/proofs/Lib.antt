pub mod Picks
pub mod Items
pub mod Firsts
pub mod Seal
pub mod Layers
pub mod Calls
