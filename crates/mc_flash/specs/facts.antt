-- Lemmas that the crates above cite. The definitions above them are what must be believed.
pub mod Layouts
pub mod Usage
pub mod Done
pub mod Spends
pub mod Changes
pub mod Pieces
pub mod Copies
