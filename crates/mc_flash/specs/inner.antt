-- Views, invariants and states of the code's own. No public contract needs them to be believed.
pub mod Journal
pub mod Room
pub mod Snap
pub mod Worked
