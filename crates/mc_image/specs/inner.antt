-- Views, invariants and states of the code's own. No public contract needs them to be believed: of `Judges`, which is made of them,
-- the contracts of `Judge` say all that a caller needs.
pub mod Reading
pub mod Judging
pub mod VersionReading
