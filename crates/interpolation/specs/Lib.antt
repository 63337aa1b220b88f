-- The plane through three values (docs/RULES.md, 6.5), and the words of the theorems about it.
pub mod Interpolation
pub mod Nearness
pub mod Refusals
pub mod Answers
