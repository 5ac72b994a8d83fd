pub mod Keys
pub mod ProvedUnits
pub mod Picks
pub mod Asked
pub mod Verdicts
pub mod CacheFile
pub mod ProofLeft
pub mod VerdictCache
