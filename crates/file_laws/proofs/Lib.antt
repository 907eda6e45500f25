-- In the order of what follows from what.
pub mod Due
pub mod Bytes
pub mod All
pub mod Written
pub mod Ascends
pub mod Distinct
pub mod InFile
pub mod Numbers
pub mod Carried
pub mod Steps
pub mod Rule
pub mod Loads
pub mod Same
pub mod Cases
pub mod Past
pub mod Enough
