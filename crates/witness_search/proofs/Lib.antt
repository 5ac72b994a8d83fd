pub mod ChoiceLemmas
pub mod ListLemmas
pub mod FoundLemmas
pub mod ToldLemmas
pub mod IntChoices
pub mod FaultSteps
pub mod FaultyRuns
