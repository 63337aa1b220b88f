-- The channels of a colour.
pub mod Channels
