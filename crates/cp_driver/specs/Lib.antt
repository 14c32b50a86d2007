pub mod Jobs
pub mod Asked
pub mod Making
pub mod Messages
pub mod Answers
pub mod Causes
pub mod Pieces
