-- Laws that the proofs of `sound` cite.
pub mod Everies
pub mod Records
pub mod Looks
pub mod Marks
pub mod Nodes
pub mod Owners
pub mod Tops
