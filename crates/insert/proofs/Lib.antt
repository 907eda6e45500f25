-- Laws that the proofs of `insert` and of the crates above it cite.
pub mod Fitted
pub mod Nines
pub mod Divided
pub mod Ways
pub mod Steps
pub mod Roots
pub mod Records
