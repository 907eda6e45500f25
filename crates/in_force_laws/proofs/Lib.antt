-- Laws of the records in force.
pub mod Pairs
pub mod Faults
pub mod Asks
pub mod Owned
pub mod Change
pub mod Whole
pub mod Search
pub mod Many
pub mod Batch
pub mod Filled
pub mod Owns
pub mod Apart
pub mod Pointers
pub mod Written
pub mod Sounds
pub mod Call
