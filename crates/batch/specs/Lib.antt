-- What the parts of a call promise.
pub mod Batching
