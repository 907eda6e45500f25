-- Laws of the program's steps.
pub mod Calls
pub mod Steps
pub mod Moves
pub mod Rests
pub mod First
