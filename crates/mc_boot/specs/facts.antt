-- Lemmas that the crates above cite. The definitions above them are what must be believed.
pub mod Sizes
pub mod Run
pub mod Steps
pub mod Leaps
pub mod Writes
pub mod Confirm
pub mod Lengths
pub mod Bounds
