pub mod Tree
pub mod inner
pub mod facts
