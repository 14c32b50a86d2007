pub mod FirstForm
pub mod FirstUnit
pub mod FirstAssembly
