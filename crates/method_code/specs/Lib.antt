pub mod Called
pub mod Meanings
pub mod Numbering
pub mod OfMethods
pub mod Reading
