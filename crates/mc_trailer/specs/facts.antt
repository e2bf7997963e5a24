-- Lemmas that the crates above cite. The definitions above them are what must be believed.
pub mod Tables
pub mod Places
pub mod Fields
pub mod Entries
