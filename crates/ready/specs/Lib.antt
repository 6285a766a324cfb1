pub mod Sets
pub mod Pairs
pub mod Rounds
pub mod Searches
pub mod Dead
pub mod Laws
