pub mod Zeroed
pub mod Cases
pub mod Results
pub mod Joined
