-- The ways forward through the code of a clause, with the stacks that they bring.
pub mod Arriving
pub mod Beginning
pub mod BehindLemmas
pub mod Between
pub mod Gathering
pub mod Joins
pub mod Lying
pub mod Moves
pub mod Passing
pub mod Pending
pub mod Standing
pub mod Walks
