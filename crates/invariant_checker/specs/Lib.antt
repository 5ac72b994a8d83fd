pub mod Counts
pub mod Inducts
pub mod Safety
pub mod Verdicts
