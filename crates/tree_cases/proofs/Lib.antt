pub mod Conditions
pub mod Types
