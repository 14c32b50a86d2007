pub mod Texts
pub mod Chains
pub mod Denoted
pub mod Names
pub mod Earlier
pub mod Functions
