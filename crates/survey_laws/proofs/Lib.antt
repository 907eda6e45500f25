-- The exact values of doubles, and the windows that they become.
pub mod Linear
pub mod Values
pub mod Floors
pub mod Sums
pub mod Ranges
pub mod Wholes
pub mod Finished
pub mod Boxes
pub mod Discs
pub mod Surveys
