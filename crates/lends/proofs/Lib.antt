-- What the machine's calls over a lent state rest on, that they leave no second outcome, and that two in turn are one.
pub mod Lends
pub mod Stepping
pub mod Unique
pub mod Again
