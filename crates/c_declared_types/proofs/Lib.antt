pub mod LengthLaws
pub mod QuestionLaws
pub mod StepLaws
pub mod BuildLaws
pub mod CountLaws
pub mod WordLaws
pub mod MemberLaws
pub mod ParameterLaws
