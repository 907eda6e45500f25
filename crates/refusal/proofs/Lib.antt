-- Laws of what refuses a call.
pub mod Refusals
