-- Histories of one pool, and the customer's three demands about them; and what document 02 asks of the calls beside them.
pub mod Steps
pub mod Demands
pub mod Surveys
pub mod Files
pub mod Rooms
pub mod Neighbour
