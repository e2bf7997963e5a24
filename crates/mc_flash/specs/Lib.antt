pub mod Geometry
pub mod Largest
pub mod Flash
pub mod Usage
pub mod inner
pub mod facts
