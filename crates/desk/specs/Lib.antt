pub mod Texts
pub mod Making
pub mod Desks
pub mod Follows
