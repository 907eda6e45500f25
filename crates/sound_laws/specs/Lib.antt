-- The tree in a pool.
pub mod Tree
