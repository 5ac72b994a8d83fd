pub mod FaultText
pub mod ReasonText
pub mod ListText
pub mod IlText
pub mod RefuteText
pub mod Answers
