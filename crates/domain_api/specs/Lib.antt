pub mod Meter
pub mod Order
pub mod Laws
