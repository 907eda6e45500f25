-- Search: exactly what is there, and exactly what was opened.
pub mod Covers
pub mod Clauses
pub mod Found
pub mod Opened
pub mod Order
pub mod Modes
pub mod Exact
pub mod Site
