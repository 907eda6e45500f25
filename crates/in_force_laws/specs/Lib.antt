-- The records in force, with no tree, and what a search is to show of them.
pub mod Force
pub mod Shows
pub mod Batch
pub mod Apart
pub mod History
