-- Laws that the proofs of `map` cite.
pub mod Editions
pub mod Numbers
