pub mod Typings
pub mod Operators
