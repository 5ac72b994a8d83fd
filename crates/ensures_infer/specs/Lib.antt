pub mod Inferred
pub mod Texts
pub mod Rows
pub mod Following
pub mod Returns
pub mod Candidates
pub mod Strengthening
