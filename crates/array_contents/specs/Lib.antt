pub mod Contents
pub mod Storing
pub mod Replacing
pub mod Merging
pub mod Ends
pub mod Makings
pub mod FormTest
pub mod Meaning
