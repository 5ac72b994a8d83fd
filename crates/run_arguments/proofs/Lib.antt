pub mod NumberLemmas
pub mod WordLemmas
pub mod ListLemmas
pub mod TextLemmas
pub mod ItemLemmas
pub mod Examples
