pub mod Space
pub mod Effects
pub mod States
pub mod Output
pub mod Starts
pub mod Images
pub mod Simulation
