-- Views, invariants and states of the code's own. No public contract needs them to be believed.
pub mod Digests
pub mod Locating
pub mod Searching
pub mod Searches
