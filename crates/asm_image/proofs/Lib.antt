pub mod BlobLemmas
pub mod FindLemmas
pub mod NameLemmas
pub mod NameTableLemmas
pub mod RunLemmas
pub mod TextLemmas
pub mod WalkLemmas
