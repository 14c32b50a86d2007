pub mod Integers
pub mod Ids
