pub mod Faults
pub mod Decoding
pub mod Decodes
pub mod Body
pub mod Labels
pub mod Names
pub mod Text
pub mod Spelling
