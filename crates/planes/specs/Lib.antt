-- The vocabulary of this crate's contracts.
pub mod Planes
