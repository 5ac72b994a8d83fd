pub mod Boxed
pub mod Rising
pub mod PartForms
pub mod KeptWhereOk
pub mod Judging
pub mod AlikeVariables
pub mod ThereVars
