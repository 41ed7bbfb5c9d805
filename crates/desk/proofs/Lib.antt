pub mod Worlds
pub mod Entries
