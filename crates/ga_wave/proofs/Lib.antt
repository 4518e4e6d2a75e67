pub mod Parts
pub mod Tracing
pub mod Turning
pub mod Fitting
pub mod LastValues
pub mod Posting
pub mod OneMove
pub mod PortTurns
pub mod WordsInOrder
pub mod Identifying
pub mod Words
pub mod ReadingParts
pub mod ValueTexts
pub mod HeaderLines
pub mod OneOfMany
pub mod ReadBack
pub mod LabelWords
pub mod NamesDiffer
pub mod VariableLines
pub mod DeclaredNames
mod Worked
mod WorkedReading
