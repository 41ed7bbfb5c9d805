pub mod KeyboardLaws
