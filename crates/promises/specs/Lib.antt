-- What the exported functions promise: every number and word that comes back is what the definitions give.
pub mod Calls
pub mod Blanks
pub mod Files
pub mod Surveys
pub mod Rooms
