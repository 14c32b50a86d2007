pub mod Calls
pub mod Choices
pub mod Names
pub mod Texts
