mod Restarts
mod CutsInRounds
mod Loaded
pub mod Replays
mod Along
pub mod Reading
