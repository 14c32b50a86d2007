pub mod SumLaws
pub mod CounterLaws
pub mod OutsideLaws
