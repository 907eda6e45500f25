-- What one request leaves.
pub mod Serving
