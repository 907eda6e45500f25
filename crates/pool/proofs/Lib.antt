-- Laws of the layout that the proofs of `pool` and of the crates above it cite.
pub mod Naturals
pub mod Fronts
pub mod Stores
pub mod Lengths
pub mod Blanks
pub mod Bits
pub mod Stand
pub mod Tidied
