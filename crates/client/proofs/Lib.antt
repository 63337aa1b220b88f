-- What a pair of triangles rests on, and that its contract leaves no second outcome.
pub mod Drawn
pub mod Unique
