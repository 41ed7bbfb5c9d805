pub mod Ranges
pub mod SlotsPart
pub mod SlotsLaws
pub mod SlotLaws
pub mod SlotWords
