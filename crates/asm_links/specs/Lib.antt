pub mod Keys
pub mod Homes
pub mod Laws
pub mod Targets
