-- What the machine's calls answer.
pub mod Answers
