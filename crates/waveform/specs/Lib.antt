-- The waveform panel (docs/RULES.md, 6.6), the two triangles of a bar, and the words of the theorems.
pub mod Panel
pub mod Bars
pub mod Members
pub mod Answers
