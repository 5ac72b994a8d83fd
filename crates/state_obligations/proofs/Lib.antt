pub mod Nearest
pub mod Following
pub mod ConditionLaws
pub mod AssumptionLaws
pub mod JudgedLaws
pub mod StateLaws
pub mod FaultLaws
pub mod AddressLaws
