-- Laws that the proofs of `geometry` and of the crates above it cite.
pub mod Rects
pub mod Relations
