pub mod Answering
pub mod Wanted
pub mod Judging
