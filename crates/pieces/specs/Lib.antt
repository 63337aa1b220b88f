-- The machine in pieces, as the code holds it, and what a step of it promises.
pub mod Pieces
pub mod Steps
