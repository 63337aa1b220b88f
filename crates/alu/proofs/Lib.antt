pub mod Entries
pub mod Readings
