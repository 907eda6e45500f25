-- Closed histories: what each leaves, by computing with the definitions.
pub mod Mixed
pub mod TwoLevels
pub mod DeleteRefused
pub mod UpdateRefused
pub mod Modes
pub mod Flat
pub mod Upright
