pub mod Arguments
pub mod CallStates
pub mod CallForms
pub mod Meaning
