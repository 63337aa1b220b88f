-- The words of the theorems: what is painted, told pixel by pixel, what a tree paints, the words that a run comes to, and two machines
-- that differ in where their screens stand.
pub mod Paint
pub mod Trees
pub mod Runs
pub mod Alike
