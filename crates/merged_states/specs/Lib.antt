pub mod Parts
pub mod Merging
pub mod Rules
pub mod Alike
pub mod Inclusion
pub mod Following
pub mod Laws
