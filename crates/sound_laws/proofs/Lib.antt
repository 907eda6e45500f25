-- Laws of the tree in a pool.
pub mod Same
pub mod Tests
pub mod Times
pub mod Walk
pub mod Frame
pub mod Apart
pub mod Entries
pub mod Flat
pub mod Whole
pub mod Heights
pub mod Questions
pub mod Sound
pub mod Blank
pub mod Free
