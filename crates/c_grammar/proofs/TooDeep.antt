-- Where the reading of a unit is too deep, the tokens before the place begin a list that has a tree.
pub mod Steps
pub mod Parts
pub mod Expressions
pub mod Moves
pub mod Unit
pub mod Lists
pub mod Declarations
pub mod Declarators
pub mod Items
pub mod Rows
pub mod Statements
pub mod Types
pub mod TypesSteps
pub mod Void
pub mod Members
pub mod Whole
