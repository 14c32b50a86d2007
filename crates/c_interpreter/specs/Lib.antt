pub mod Places
pub mod Machine
pub mod Weights
pub mod Leading
pub mod Outputs
pub mod Faults
