pub mod FoundLaws
pub mod ListLaws
pub mod RowLaws
pub mod SpecLaws
pub mod MemberRowLaws
pub mod TagRowLaws
pub mod PartLaws
pub mod ArrayLaws
pub mod FunctionRowLaws
pub mod AgainLaws
pub mod EnumeratorLaws
mod KidLengths
mod RoomLaws
pub mod NamingLaws
