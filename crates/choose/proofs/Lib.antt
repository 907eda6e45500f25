-- Laws that the proofs of `choose` cite.
pub mod Turns
