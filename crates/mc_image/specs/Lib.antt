pub mod Image
pub mod Valid
pub mod Verdict
pub mod Judging
pub mod Writing
pub mod VersionText
pub mod inner
pub mod facts
