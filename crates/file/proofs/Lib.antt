-- Laws over plain values, for the proofs of the functions.
pub mod Listing
pub mod News
pub mod Sizes
pub mod Frames
pub mod Dues
pub mod Takes
pub mod Heads
pub mod Writes
pub mod Loaded
