-- The laws behind the functions' proofs.
pub mod Touch
pub mod Refused
pub mod Framed
pub mod Lone
