pub mod OneUnit
