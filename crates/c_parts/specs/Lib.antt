pub mod Kinds
pub mod Nodes
pub mod Pushed
pub mod Says
pub mod Slots
