pub mod NodeLaws
pub mod BlockLaws
pub mod EqualLaws
pub mod MemberLaws
pub mod LossLaws
pub mod LeafLaws
pub mod NamedLaws
