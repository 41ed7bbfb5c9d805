pub mod Failures
pub mod Items
pub mod Keys
pub mod Refusals
