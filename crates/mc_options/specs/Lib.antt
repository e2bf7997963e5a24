pub mod Numbers
pub mod Arguments
pub mod Statuses
pub mod Sources
pub mod Refusals
pub mod Requests
pub mod Outfiles
pub mod LayoutFiles
