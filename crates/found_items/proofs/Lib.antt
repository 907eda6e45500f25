-- Laws of items that the crates above cite.
pub mod Words
