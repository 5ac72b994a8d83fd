pub mod ArgumentWords
pub mod ValueTexts
pub mod FaultTexts
pub mod EndTexts
pub mod RunAnswers
