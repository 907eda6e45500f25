-- Laws of the layout: words in runs, the parts of a pool in them, what is written and read again.
pub mod Parts
pub mod Runs
pub mod Padded
pub mod Written
pub mod Few
