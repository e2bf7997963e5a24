pub mod Engines
pub mod Lines
pub mod Created
