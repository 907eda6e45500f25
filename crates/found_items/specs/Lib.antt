-- What is found, before it is in order.
pub mod Items
