pub mod WordBytes
pub mod RunWordLemmas
pub mod CheckWordLemmas
pub mod UsedIndexes
pub mod CheckCommands
pub mod InferWords
