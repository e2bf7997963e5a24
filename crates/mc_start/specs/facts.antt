-- Lemmas that the crates above cite. The definitions above them are what must be believed.
pub mod Room
pub mod Reading
pub mod Counting
