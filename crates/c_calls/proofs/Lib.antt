pub mod ParameterLaws
pub mod PassLaws
pub mod CallLaws
