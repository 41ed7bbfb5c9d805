pub mod EntryLaws
pub mod TouchLaws
