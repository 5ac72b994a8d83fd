pub mod TreeLemmas
pub mod BlockLemmas
