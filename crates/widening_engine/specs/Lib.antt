pub mod Rounds
pub mod Flows
pub mod Merging
pub mod Marks
pub mod Limits
pub mod Work
pub mod Kept
