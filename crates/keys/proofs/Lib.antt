pub mod WordLaws
pub mod IterationLaws
pub mod KeyWordLaws
