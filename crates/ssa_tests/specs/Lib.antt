pub mod Edges
pub mod Flows
pub mod ListShape
pub mod Seen
