pub mod Cases
pub mod Locating
pub mod Table
pub mod inner
