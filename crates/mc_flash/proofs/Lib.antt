mod Worked
pub mod Limits
mod Copies
pub mod Lanes
pub mod Undo
