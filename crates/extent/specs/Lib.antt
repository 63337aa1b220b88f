-- The vocabulary of this crate's contracts: rows before or beyond three vertex numbers.
pub mod Extent
