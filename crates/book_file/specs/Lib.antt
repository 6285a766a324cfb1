pub mod Table
pub mod Files
pub mod Laws
pub mod Names
pub mod Parts
pub mod Books
pub mod Ranges
pub mod Answering
