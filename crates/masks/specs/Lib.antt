-- The vocabulary of this crate's contracts: spans of columns, and which leaves a mask names.
pub mod Span
pub mod Mask
