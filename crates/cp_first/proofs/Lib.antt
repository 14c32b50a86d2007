pub mod FirstAssemblies
pub mod FirstForms
pub mod FirstRuns
pub mod FirstWellFormed
pub mod Numbers
pub mod Prefixes
