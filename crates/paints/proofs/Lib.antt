-- What the machine's drawing instructions paint: that a painting is one memory, what each instruction paints, and what stays.
pub mod Painted
pub mod Put
pub mod Steps
pub mod Kept
pub mod Same
pub mod Alike
