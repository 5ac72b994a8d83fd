pub mod EntryLemmas
mod LinkLaws
mod RowLaws
mod BucketLaws
mod PackedLaws
mod InvariantRead
mod Taken
pub mod Again
mod CacheAnswers
mod FirstKeys
mod FirstWalk
mod KeptLemmas
mod ShortEntries
