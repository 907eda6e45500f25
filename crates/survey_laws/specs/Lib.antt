-- How large a double is, for the code that rounds it; what the kit's logic takes it to be; and a query of doubles.
pub mod Sizes
pub mod Kit
pub mod Queries
