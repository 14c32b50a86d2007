pub mod OrderLaws
pub mod KeptLaws
pub mod LikeLaws
pub mod EdgeLaws
