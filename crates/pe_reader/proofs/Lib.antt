pub mod Lookup
pub mod Found
pub mod Rest
