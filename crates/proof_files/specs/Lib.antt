pub mod Lines
pub mod Proofs
pub mod Reading
pub mod Held
pub mod Steps
