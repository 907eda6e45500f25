-- Laws of words, frames, digits and lines.
pub mod Words
pub mod Requests
pub mod Framing
pub mod Pieces
pub mod Digits
pub mod Texts
pub mod Fields
