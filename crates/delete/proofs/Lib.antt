-- Laws that the proofs of `delete` cite.
pub mod Nodes
pub mod Listed
pub mod Relieved
pub mod Climb
pub mod Stops
pub mod Backs
pub mod Shorts
pub mod Deleted
