pub mod ByCode
pub mod WalkLaws
