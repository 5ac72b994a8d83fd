pub mod Answers
pub mod Arrays
pub mod Brought
pub mod FirstTypeFault
pub mod Room
pub mod Successors
pub mod FaultPlaces
