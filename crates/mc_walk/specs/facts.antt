-- Lemmas that the crates above cite.
pub mod Same
pub mod Twins
