pub mod Readings
pub mod Cases
pub mod Laws
pub mod inner
