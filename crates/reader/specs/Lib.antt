-- What the row reader promises, in parts with names.
pub mod Parts
pub mod Rows
