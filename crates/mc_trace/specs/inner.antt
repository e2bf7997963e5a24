-- Views, invariants and states of the code's own. No contract of the headline and no law needs them to be believed; calls that the crates
-- above make of this one name some of them.
pub mod Boots
pub mod Walking
pub mod Swaps
pub mod Torn
