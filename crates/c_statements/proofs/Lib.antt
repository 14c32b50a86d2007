pub mod ReturnLaws
pub mod LabelLaws
pub mod GroupLaws
