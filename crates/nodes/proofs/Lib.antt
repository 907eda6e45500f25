-- Laws that the proofs of `nodes` and of the walks above it cite.
pub mod Slots
pub mod Pointers
pub mod Covers
pub mod Tight
