pub mod LampPart
pub mod Examples
