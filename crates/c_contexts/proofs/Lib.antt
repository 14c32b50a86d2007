pub mod CallLaws
pub mod SpecsLaws
