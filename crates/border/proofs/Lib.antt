-- What C has of a state loses nothing of it.
pub mod Back
