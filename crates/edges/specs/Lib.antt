-- An edge from its four numbers, which are in range, and the edge that a struct is.
pub mod Edges
pub mod Corners
