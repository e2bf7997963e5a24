pub mod Explained
pub mod Images
pub mod Layouts
pub mod Lives
pub mod Rounds
pub mod Schedules
pub mod Vectors
