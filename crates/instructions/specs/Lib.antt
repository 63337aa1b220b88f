-- The machine's rules (docs/RULES.md, 7 to 12): its words and instructions, the tree, the halts; then the step, the run and the calls.
pub mod Opcodes
pub mod Words
pub mod Arithmetic
pub mod Jumps
pub mod Moves
pub mod Tree
pub mod Halts
pub mod Answers
pub mod Step
pub mod Run
pub mod Calls
