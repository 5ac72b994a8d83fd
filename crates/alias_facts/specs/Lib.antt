pub mod NullnessOf
pub mod PairsOf
pub mod KeptPairs
pub mod Following
pub mod Arrays
