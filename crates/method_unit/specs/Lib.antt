pub mod UnitFile
pub mod Units
pub mod CalledInOrder
pub mod UnitOf
