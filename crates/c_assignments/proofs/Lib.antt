pub mod AssignmentLaws
pub mod CompoundLaws
