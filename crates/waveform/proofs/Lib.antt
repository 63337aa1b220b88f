-- Theorems about the waveform panel: which samples a column has and which rows it fills, the number, that there is no second outcome, and
-- what an offset does; and that a bar's two triangles, drawn by calls, are the bar.
pub mod Columns
pub mod Members
pub mod Extremes
pub mod Rows
pub mod Flat
pub mod Counts
pub mod Bars
pub mod Ranges
pub mod Numbers
pub mod Unique
pub mod Offset
pub mod Shift
