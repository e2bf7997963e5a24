-- Views, invariants and states of the code's own. No public contract needs them to be believed.
pub mod Idle
pub mod Meets
pub mod Section
