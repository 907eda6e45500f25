-- Laws about one request.
pub mod Rows
pub mod Cases
pub mod Turns
pub mod Checks
pub mod Leaves
pub mod Listing
pub mod Replaced
