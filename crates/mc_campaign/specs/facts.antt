-- Lemmas that the contracts cite, and the proofs with them. The definitions above them are what must be believed.
pub mod Cuts
pub mod Room
pub mod Paths
pub mod Listed
pub mod InRounds
pub mod Keys
