-- Laws of what the panel's functions do.
pub mod Drawing
pub mod Answers
