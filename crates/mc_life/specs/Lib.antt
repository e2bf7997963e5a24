pub mod Device
pub mod Script
pub mod Replay
pub mod inner
