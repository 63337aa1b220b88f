-- What the functions of this crate promise, in parts with names.
pub mod Fills
pub mod Areas
