-- What deleting does to a tree in a pool.
pub mod Way
pub mod Shrunk
