pub mod Kept
pub mod Worlds
pub mod Stages
