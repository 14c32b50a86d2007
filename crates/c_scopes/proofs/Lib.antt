pub mod LatestLaws
pub mod KeptLaws
