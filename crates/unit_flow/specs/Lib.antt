pub mod Ways
pub mod Flow
pub mod FlowOf
pub mod Chains
pub mod Runs
