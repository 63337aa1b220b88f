-- Laws of a column's samples.
pub mod Scale
pub mod Later
pub mod Taken
