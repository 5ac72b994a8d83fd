pub mod RunLemmas
pub mod RunRows
