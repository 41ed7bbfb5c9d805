pub mod Seen
pub mod Rows
