pub mod Sized
pub mod Made
