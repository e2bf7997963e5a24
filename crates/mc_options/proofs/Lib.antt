pub mod Appended
pub mod Begun
pub mod GivenOptions
pub mod Settings
pub mod Standing
