pub mod TreeValues
pub mod ClauseStates
pub mod VariableKinds
pub mod Meaning
