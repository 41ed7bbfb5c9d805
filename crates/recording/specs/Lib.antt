pub mod Commands
pub mod Frames
pub mod Iteration
