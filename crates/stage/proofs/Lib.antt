pub mod Kept
pub mod Slices
