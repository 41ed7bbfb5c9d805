pub mod TrueLines
pub mod Rising
pub mod TrueEntries
