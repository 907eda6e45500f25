-- What the frames of a file are made of, and records in the order that a file has them in.
pub mod Bytes
pub mod Ascending
