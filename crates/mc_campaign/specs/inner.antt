-- Views, invariants and states of the code's own. No public contract needs them to be believed.
pub mod InRounds
pub mod View
