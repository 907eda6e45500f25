-- Laws that the proofs of `free_slots` and of the crates above it cite.
pub mod Frees
pub mod LowestSlot
pub mod Known
