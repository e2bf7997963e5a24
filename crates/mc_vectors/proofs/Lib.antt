mod Digested
pub mod Orders
mod Covered
mod Extended
mod Visited
mod Known
mod Arrived
pub mod Tabled
mod Differing
mod Nearest
pub mod Searches
