pub mod Campaigns
pub mod Rounds
pub mod Texts
pub mod Rows
pub mod Page
pub mod inner
pub mod facts
