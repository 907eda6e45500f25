-- How the structs of `split` represent the places and groups of document 01.
pub mod State
pub mod Stored
pub mod Orders
