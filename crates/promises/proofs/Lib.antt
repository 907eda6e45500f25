-- What follows from the promises alone.
pub mod Once
pub mod Plain
