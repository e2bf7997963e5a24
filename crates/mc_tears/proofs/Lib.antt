pub mod Listed
pub mod Ending
pub mod Standing
pub mod Loads
pub mod Written
pub mod Losing
pub mod EndsSame
pub mod AsWhole
