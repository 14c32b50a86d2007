pub mod FirstLaws
pub mod DefinedLaws
pub mod ObjectLaws
pub mod DeclarationLaws
