pub mod Nothing
pub mod Handed
pub mod PartsFormed
pub mod Formed
pub mod Made
pub mod InclusionLaws
