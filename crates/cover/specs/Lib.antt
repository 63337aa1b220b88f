-- The vocabulary of this crate's contracts: quotients rounded up, what a side and a crossing hold, and a row's span.
pub mod Units
pub mod Side
pub mod Spans
