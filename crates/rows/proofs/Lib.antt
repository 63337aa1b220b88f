-- The laws behind the functions' proofs.
pub mod Stretch
pub mod Covered
pub mod Running
pub mod Rowed
pub mod Single
