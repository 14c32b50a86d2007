pub mod Found
pub mod Said
pub mod Lengths
pub mod Tagged
pub mod Arrays
pub mod Parameters
pub mod Enumerators
pub mod Naming
