pub mod Checked
pub mod Located
pub mod RowBounds
pub mod Unique
