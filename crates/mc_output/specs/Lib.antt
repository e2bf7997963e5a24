pub mod Text
pub mod facts
