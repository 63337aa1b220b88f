pub mod Bounds
pub mod Fills
pub mod Pairs
pub mod Tests
