pub mod OperandLaws
pub mod CastLaws
pub mod UnaryLaws
pub mod CodeLaws
pub mod ConstantLaws
pub mod BinaryLaws
pub mod ChoiceLaws
