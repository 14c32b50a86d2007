pub mod SpanLaws
pub mod ParentLaws
pub mod ReadLaws
pub mod DeclaratorLaws
pub mod ScopeLaws
pub mod AroundLaws
