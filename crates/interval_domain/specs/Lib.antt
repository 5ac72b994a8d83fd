pub mod Interval
pub mod Joins
pub mod Arithmetic
pub mod Laws
