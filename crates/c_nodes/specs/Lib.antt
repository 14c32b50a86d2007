pub mod Parents
pub mod Spans
pub mod Declarators
pub mod Scopes
pub mod Around
