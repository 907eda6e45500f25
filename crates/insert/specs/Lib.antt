-- How what the code leaves represents what the definitions give.
pub mod Left
pub mod State
