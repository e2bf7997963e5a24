-- Lemmas that the crates above cite.
pub mod Parting
pub mod Reading
pub mod Prefixes
pub mod Results
