-- What a batch knows of the free slots.
pub mod Known
