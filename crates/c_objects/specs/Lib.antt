pub mod Firsts
pub mod Objects
