pub mod Heaps
pub mod Layout
pub mod Numbers
pub mod Placed
pub mod Root
pub mod Schema
pub mod TableTests
pub mod Tests
