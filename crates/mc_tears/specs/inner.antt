-- States of the code's own. No public contract needs them to be believed.
pub mod Standing
pub mod Losing
