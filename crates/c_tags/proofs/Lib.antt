pub mod OrderLaws
pub mod ChainLaws
pub mod TaggedLaws
pub mod TagLaws
