pub mod Meaning
pub mod Pile
pub mod Walk
