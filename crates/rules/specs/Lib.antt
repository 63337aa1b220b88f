-- The drawing's rules (docs/RULES.md, 2 to 6): Sizes, Triangles, Numbers, and what each call leaves (Calls). Folds has the plain
-- recursions that they use, Lists the drawing of a list.
pub mod Folds
pub mod Sizes
pub mod Triangles
pub mod Numbers
pub mod Answers
pub mod Calls
pub mod Lists
