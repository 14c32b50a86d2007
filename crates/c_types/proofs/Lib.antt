pub mod FormLaws
pub mod OrderLaws
pub mod PaintLaws
pub mod SizeLaws
pub mod KeptLaws
pub mod ReadLaws
pub mod EqualLaws
pub mod FieldLaws
mod Rows
