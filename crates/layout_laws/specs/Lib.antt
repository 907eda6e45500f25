-- What is asked of a pool's words.
pub mod Slots
