-- What a run may count on, and what it leaves.
pub mod Runs
