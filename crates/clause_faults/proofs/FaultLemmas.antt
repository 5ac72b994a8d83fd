-- The first faults of clauses.
pub mod Earliest
pub mod FaultPlaces
pub mod FaultRanges
pub mod FaultRows
pub mod HeightLemmas
pub mod NoFaults
