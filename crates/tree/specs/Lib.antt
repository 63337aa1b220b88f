-- What the functions of this crate ask and promise, where no definition of the instructions says it.
pub mod Leaves
