pub mod Hold
pub mod Worked
pub mod Planes
pub mod Panels
