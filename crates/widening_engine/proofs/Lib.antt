pub mod Lists
pub mod EdgeSteps
pub mod Marks
pub mod Rounds
mod Examples
pub mod UnitSizes
pub mod Limiting
pub mod LimitSizes
pub mod Counting
pub mod Refreshing
pub mod KeptStates
pub mod Stepping
pub mod Working
pub mod Forgetting
pub mod Seeking
pub mod EveryEdge
