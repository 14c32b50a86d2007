pub mod Outside
pub mod Taking
pub mod Memory
pub mod Regions
pub mod Words
pub mod Operations
