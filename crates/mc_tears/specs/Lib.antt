pub mod Ends
pub mod Tears
pub mod Losses
pub mod inner
