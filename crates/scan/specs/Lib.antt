pub mod Tracks
pub mod Tests
pub mod Model
pub mod Standing
pub mod Watching
pub mod Runs
