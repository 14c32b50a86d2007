pub mod WordCount
