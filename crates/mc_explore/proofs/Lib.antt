mod Beginning
pub mod BootTails
pub mod BootWays
pub mod BootSteps
mod BootRows
pub mod BootLast
pub mod CutsAlong
mod Bytes
mod Continued
mod Onwards
mod PageRows
mod PageText
mod Passing
mod Preceding
mod Restarts
mod Runs
mod TornPages
mod Visiting
pub mod Counted
pub mod Counting
pub mod JudgedRows
pub mod Rowing
pub mod Walks
mod LastCuts
mod Lines
