-- What search does at the entries of one node, and what a walk does to the items.
pub mod State
pub mod Walk
