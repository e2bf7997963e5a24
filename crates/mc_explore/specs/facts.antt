-- Lemmas that the crates above cite. The definitions above them are what must be believed.
pub mod Occurring
pub mod Summaries
pub mod Restarts
pub mod Listed
pub mod OneRoundPaths
pub mod Keys
pub mod Following
pub mod LastCuts
pub mod Listings
pub mod Whole
pub mod Tails
pub mod Totals
pub mod Children
pub mod BootRoom
