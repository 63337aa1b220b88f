-- What the plane's numbers rest on: bounds, quotients rounded down, and what each test answers.
pub mod Ranges
pub mod Folding
pub mod Rounded
pub mod Answers
