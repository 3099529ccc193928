pub mod KeyTexts
