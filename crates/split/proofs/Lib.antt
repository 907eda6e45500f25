-- Laws that the proofs of `split` cite.
pub mod Nine
pub mod Choices
pub mod Rows
pub mod Lefts
pub mod Preferences
pub mod Joins
pub mod Steps
pub mod Turns
pub mod Starts
pub mod Once
