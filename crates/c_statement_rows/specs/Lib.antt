pub mod Conditions
pub mod Returns
pub mod Parts
