pub mod Products
pub mod RowLemmas
pub mod GivenLemmas
pub mod MemoryLemmas
pub mod ToldLemmas
pub mod PileLemmas
pub mod ClauseTests
