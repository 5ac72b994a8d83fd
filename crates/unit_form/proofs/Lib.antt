mod Counted
mod Operands
mod RootsRead
mod Taking
mod WholeTrees
mod ClausesRead
mod CalleesRead
mod Stands
mod Taken
mod TreesTaken
mod CalleesTaken
pub mod UnitTaken
mod ArgsFit
mod Again
mod TreesAgain
mod CalleesAgain
pub mod UnitAgain
pub mod OffsetsCounted
mod TreesWritten
pub mod SpellingBytes
mod UnitWritten
pub mod AddedClauses
