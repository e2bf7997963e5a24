pub mod Start
pub mod Cursor
pub mod facts
