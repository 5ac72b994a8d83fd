pub mod Stands
pub mod Counted
mod FormatLaws
mod NumberLaws
mod SegmentLaws
mod SymbolLaws
mod StateLaws
mod GoodStates
mod SpellingLaws
mod FitsFields
mod Narrow
mod SpelledFields
mod SmallStates
mod FaultsInside
mod StateAnswers
mod RangesRead
mod SegmentsRead
mod ArraysRead
mod PutSteps
mod Passed
