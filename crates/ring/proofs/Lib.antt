pub mod Rotation
pub mod RunLaws
pub mod Reading
