pub mod Conditions
pub mod Entailed
pub mod Assumed
pub mod Following
pub mod Judged
pub mod Meaning
pub mod Faults
