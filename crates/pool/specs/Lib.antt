-- What the functions of `pool` ask of a pool's words.
pub mod Standing
-- What a `Pool` and a `Node` stand for.
pub mod Reading
-- What a blanking returns as a number.
pub mod Blanking
