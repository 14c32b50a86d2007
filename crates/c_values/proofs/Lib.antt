pub mod ReadLaws
pub mod GrowLaws
