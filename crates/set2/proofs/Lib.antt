mod Rows
pub mod Tables
