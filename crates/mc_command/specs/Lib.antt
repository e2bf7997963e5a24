pub mod Inspections
pub mod Pictures
pub mod Tears
pub mod Commands
