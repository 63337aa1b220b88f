pub mod Within
pub mod Codes
pub mod Large
pub mod Between
