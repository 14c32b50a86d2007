pub mod Accesses
pub mod Stores
