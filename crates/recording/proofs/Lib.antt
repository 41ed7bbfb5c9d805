pub mod Cuts
pub mod DecodeLaws
pub mod Turns
pub mod Offsets
pub mod Iteration
