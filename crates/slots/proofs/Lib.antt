pub mod WayLaws
pub mod SlotWordLaws
