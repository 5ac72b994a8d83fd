pub mod Labels
pub mod InferredUnits
pub mod ReportText
pub mod CheckText
pub mod Findings
pub mod Sections
pub mod JudgedUnits
pub mod Reportable
