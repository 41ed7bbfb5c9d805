pub mod Appended
pub mod Releases
pub mod DecoderLaws
