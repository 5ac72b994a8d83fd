pub mod TreeStacks
pub mod Growth
pub mod Dropping
pub mod Extracting
