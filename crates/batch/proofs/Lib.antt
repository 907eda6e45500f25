-- Laws of a batch: what is asked, what refuses, what each request leaves, and where its records go.
pub mod Asks
pub mod Batches
pub mod Calls
pub mod Carries
pub mod Listed
pub mod Verdicts
