-- What a search is measured by: tests that look at everything, and records in order.
pub mod Window
pub mod Order
