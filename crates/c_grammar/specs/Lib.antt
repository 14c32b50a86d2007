pub mod Vocabulary
pub mod Scopes
pub mod Derivation
pub mod Fronts
pub mod Answers
pub mod Reading
pub mod Meanings
pub mod Checkable
