-- The items of an owner with each pair once; where the code finds a file's frames; what a write of a sound pool comes to.
pub mod Items
pub mod Loading
pub mod Filling
