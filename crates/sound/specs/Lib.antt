-- What the walk of soundness asks and tells.
pub mod Walked
