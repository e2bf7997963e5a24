pub mod Disks
pub mod Exports
pub mod Lines
