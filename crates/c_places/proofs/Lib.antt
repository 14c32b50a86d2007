pub mod GrowLaws
pub mod PointerLaws
pub mod MemberLaws
pub mod ElementLaws
pub mod LiteralLaws
pub mod NameLaws
