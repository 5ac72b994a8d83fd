pub mod MachineValues
pub mod Points
pub mod Flows
