-- The laws behind the functions' proofs.
pub mod Columns
pub mod Mask
pub mod Leading
