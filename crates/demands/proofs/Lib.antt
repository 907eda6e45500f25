-- The three demands, and what document 02 asks beside them, proved.
pub mod Holds
pub mod Turns
pub mod Unasked
pub mod Demands
pub mod Sites
pub mod Closed
pub mod ClosedRoads
pub mod Surveys
pub mod Files
pub mod ClosedFiles
pub mod Rooms
pub mod ClosedRooms
pub mod Neighbour
pub mod ClosedNeighbour
