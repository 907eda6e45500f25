-- Deleting keeps the tree.
pub mod Clauses
pub mod Finds
pub mod Held
pub mod Asides
pub mod Out
pub mod Narrow
pub mod Condense
pub mod Thin
pub mod Again
pub mod Spare
pub mod Short
pub mod Delete
pub mod Keeps
pub mod Update
pub mod Lasting
