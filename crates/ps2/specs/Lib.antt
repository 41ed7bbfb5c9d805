pub mod Takes
pub mod Runs
