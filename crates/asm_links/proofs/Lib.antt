pub mod HomeLemmas
pub mod PlaceLists
