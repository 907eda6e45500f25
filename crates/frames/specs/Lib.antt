-- What is read of the bytes that have arrived, and where bytes are written.
pub mod Reading
pub mod Places
pub mod Writing
pub mod Said
