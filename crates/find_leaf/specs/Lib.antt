-- The way that FindLeaf comes down, as the code has it, and what it looks for in a node.
pub mod Ways
pub mod Packed
pub mod State
