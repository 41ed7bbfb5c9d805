pub mod Search
pub mod Bit
