-- The state as C has it.
pub mod Lent
