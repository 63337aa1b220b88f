-- The halts of READ and WRITE.
pub mod Halts
