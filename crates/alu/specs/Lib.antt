-- The table of reciprocals.
pub mod Reciprocals
