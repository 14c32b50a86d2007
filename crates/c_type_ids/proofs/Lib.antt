pub mod IdLaws
pub mod TableLaws
pub mod MeasureLaws
pub mod CloseLaws
pub mod FindLaws
pub mod SameLaws
