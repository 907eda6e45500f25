-- Steps of a walk: locals, slices, what is lent, calls. They say nothing of any crate.
pub mod Again
pub mod Calls
pub mod Contexts
pub mod Lends
pub mod Locals
pub mod Slices
pub mod Values
