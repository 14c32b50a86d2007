pub mod KidLaws
pub mod MeaningLaws
