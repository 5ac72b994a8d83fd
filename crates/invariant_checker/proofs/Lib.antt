pub mod ClauseVerdicts
pub mod Judgeable
pub mod SafeRuns
pub mod InductionTest
pub mod Standing
pub mod Soundness
pub mod Covering
pub mod Counting
pub mod JudgeSteps
mod Examples
mod UnsafeUnit
mod CalleesCount
