pub mod NameLaws
pub mod FaultLaws
pub mod MainLaws
