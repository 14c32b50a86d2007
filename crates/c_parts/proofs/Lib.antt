pub mod DeclaratorLaws
pub mod KeywordLaws
pub mod Levels
pub mod NameLaws
pub mod PushLaws
