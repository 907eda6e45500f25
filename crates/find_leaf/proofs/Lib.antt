-- Laws that the proofs of `find_leaf` cite.
pub mod Digits
pub mod Gather
pub mod Leaf
pub mod Skips
pub mod Inner
pub mod Down
pub mod Held
pub mod Once
