pub mod Rounding
pub mod PackingLemmas
pub mod EachLemmas
pub mod BodyLemmas
pub mod RowLemmas
pub mod MetadataLemmas
pub mod Lengths
pub mod GeneratorLemmas
mod GeneratorRows
