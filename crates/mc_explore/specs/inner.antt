-- Views, invariants and states of the code's own. No contract of the headline and no law needs them to be believed; calls that the crates
-- above make of this one name some of them.
pub mod OneRound
pub mod BootTree
pub mod BootEnds
pub mod LastCuts
pub mod BootRows
pub mod Totals
pub mod Runs
pub mod Table
pub mod View
pub mod Exploring
pub mod Before
pub mod Lines
