pub mod Calls
pub mod Codes
pub mod Images
pub mod Loads
pub mod Outputs
pub mod RunSteps
pub mod Spaces
pub mod Simulations
