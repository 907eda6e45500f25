-- What refuses a call.
pub mod Refusing
