pub mod Known
pub mod Rows
pub mod Spans
pub mod Merging
pub mod Own
pub mod Settled
pub mod Meaning
pub mod Included
