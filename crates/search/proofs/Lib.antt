-- Laws of a walk over the nodes, and of what is kept of its items.
pub mod Sums
pub mod Meeting
pub mod Trees
pub mod Steps
pub mod Turns
pub mod Keeping
pub mod Listing
