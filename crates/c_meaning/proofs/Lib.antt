pub mod Agreement
pub mod EdgeRows
pub mod OperatorRows
pub mod RowUnits
pub mod Rows
pub mod RunLaws
pub mod Walk
