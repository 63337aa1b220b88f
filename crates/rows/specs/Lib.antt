-- The vocabulary of this crate's interior contracts.
pub mod Lines
pub mod Pixels
pub mod Rows
