pub mod Frames
pub mod Cuts
pub mod Worlds
pub mod Strengthened
