pub mod PieceLaws
pub mod TreeMakings
pub mod Makings
pub mod Answering
pub mod CommandLine
pub mod WordTable
