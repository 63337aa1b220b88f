-- Half-words and words in RAM.
pub mod Ram
