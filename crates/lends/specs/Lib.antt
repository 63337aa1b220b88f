-- What the machine's calls promise over a state as C has it, and what two of them answer together.
pub mod Lends
pub mod Again
