-- What a delete leaves, and what its steps ask.
pub mod Removed
pub mod Aside
