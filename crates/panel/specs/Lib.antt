-- The words of the contracts inside.
pub mod Columns
