pub mod Events
pub mod Feeding
pub mod Lines
