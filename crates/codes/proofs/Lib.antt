pub mod SearchLaws
pub mod BitLaws
pub mod DigitLaws
