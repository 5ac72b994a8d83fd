pub mod Choices
pub mod ListsLeft
pub mod Searches
