-- What an insert does to a tree in a pool.
pub mod Grown
pub mod Standing
pub mod Lasting
