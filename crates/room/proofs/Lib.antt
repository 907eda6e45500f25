-- What the proofs of `room` cite.
pub mod Rooms
