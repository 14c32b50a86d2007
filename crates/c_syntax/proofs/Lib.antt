pub mod TreeLaws
pub mod TableLaws
pub mod TextLaws
pub mod BuilderLaws
pub mod FirstLaws
