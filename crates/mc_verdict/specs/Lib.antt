pub mod PagesAsked
pub mod Requests
pub mod Sessions
pub mod Shortest
pub mod Verdicts
