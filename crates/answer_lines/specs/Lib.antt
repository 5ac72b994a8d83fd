pub mod LineCounts
pub mod Writing
pub mod Counting
pub mod Signatures
pub mod FaultKinds
pub mod Lines
pub mod Answers
pub mod Outcome
