-- The words of the theorems: a drawing told pixel by pixel, demand 3's condition, sides and common edges, rectangles, triangles moved,
-- lists.
pub mod Pointwise
pub mod Order
pub mod Sides
pub mod CommonEdge
pub mod Rectangle
pub mod Moved
pub mod Lists
