pub mod Likely
