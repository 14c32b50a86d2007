pub mod CellLaws
pub mod ScalarLaws
