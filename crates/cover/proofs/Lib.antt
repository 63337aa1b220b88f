-- The laws behind the functions' proofs.
pub mod Quotients
pub mod Along
pub mod Crossing
pub mod Meeting
pub mod Signs
pub mod Unbroken
