pub mod Places
pub mod Addresses
pub mod Faults
pub mod Reading
pub mod Images
