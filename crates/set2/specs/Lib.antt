pub mod Rows
pub mod Set2
