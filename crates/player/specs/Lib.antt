pub mod Told
pub mod Rigs
