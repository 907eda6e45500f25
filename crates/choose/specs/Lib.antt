-- What `choose` asks of a node's rectangles.
pub mod State
