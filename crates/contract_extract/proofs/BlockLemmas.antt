-- The contract block, clause by clause, and the body after it.
pub mod BodyFaults
pub mod BodyLeft
pub mod BodyRuns
pub mod ClausesByIndex
pub mod Closing
pub mod CodeFrom
pub mod EmptyStacks
pub mod EmptyStart
pub mod Extracted
pub mod InstrOffsets
pub mod Passed
pub mod Segments
pub mod SliceFound
