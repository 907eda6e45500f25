-- Laws of the definitions of document 01.
pub mod Orders
pub mod Places
pub mod Parts
pub mod Sums
pub mod Joins
pub mod Compares
pub mod Earliest
pub mod Picks
pub mod Splits
pub mod Bools
pub mod Everies
pub mod Turns
pub mod Ints
pub mod Rules
pub mod Measures
