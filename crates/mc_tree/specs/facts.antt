-- Lemmas that the crates above cite. The definitions above them are what must be believed.
pub mod Lists
pub mod OneList
pub mod Existence
pub mod Joined
pub mod Rounds
pub mod Weighed
pub mod Order
