pub mod StateParts
pub mod FormTests
