pub mod Waiting
pub mod Runs
pub mod Bytes
pub mod Rings
