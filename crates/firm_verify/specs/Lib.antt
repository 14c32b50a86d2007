pub mod Broken
pub mod Tables
pub mod Trees
pub mod Marks
pub mod Memory
