pub mod Nodes
pub mod Blocks
pub mod Held
pub mod Leaves
pub mod Named
