pub mod Reading
pub mod Faults
pub mod Places
pub mod Numbers
pub mod Types
pub mod Signatures
pub mod Spelling
