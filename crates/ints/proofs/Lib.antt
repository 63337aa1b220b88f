pub mod Laws
pub mod Modulo
pub mod Poly
pub mod Order
pub mod Bounds
pub mod Machine
pub mod Rounding
