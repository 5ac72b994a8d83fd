pub mod SafeUnits
