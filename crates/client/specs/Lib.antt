-- What a pair of triangles on a cleared screen is.
pub mod Pair
