pub mod InvariantText
pub mod Lines
pub mod NumberTexts
pub mod ReferenceLines
pub mod Shape
pub mod StateText
pub mod SymbolLines
pub mod VariableLines
