pub mod OwnerLaws
pub mod CountLaws
pub mod NumberLaws
pub mod AnyLaws
