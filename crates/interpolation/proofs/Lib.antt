-- Theorems about the plane through three values: Cramer's rule, rounding, how near the plane is and that it must be so near, what is drawn
-- of it, its numbers, and that there is no second answer.
pub mod Cramer
pub mod Rounding
pub mod Nearness
pub mod Flat
pub mod Needed
pub mod Between
pub mod Numbers
pub mod Unique
pub mod Drawn
