mod HeldLaws
pub mod CountLaws
pub mod EditLaws
pub mod TieLaws
