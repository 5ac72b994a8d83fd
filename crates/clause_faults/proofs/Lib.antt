pub mod FaultLemmas
pub mod WayLemmas
