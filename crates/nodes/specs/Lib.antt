-- What a pointer stands for, and what a node must be that a cover is made tight in.
pub mod Reading
