pub mod Modulo
pub mod Rounding
