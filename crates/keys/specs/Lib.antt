pub mod Words
pub mod KeySet
pub mod Scan
pub mod Iteration
pub mod KeysPart
pub mod KeysLaws
pub mod KeySetLaws
pub mod KeyWords
