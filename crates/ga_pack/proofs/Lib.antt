pub mod BitLists
pub mod ByCases
pub mod Encodable
pub mod Encoded
pub mod ItemParts
pub mod Laying
mod MadeWords
pub mod Meanings
pub mod OneFault
pub mod OneLayout
pub mod OneReading
pub mod OneSource
pub mod OneTextFault
mod OpcodeTable
pub mod Packable
pub mod Placed
pub mod ReadingFacts
pub mod RightTexts
mod Spellings
mod StoredOpcodes
mod WorkedEncodings
mod WorkedFaults
mod WorkedLayouts
mod WorkedReadings
mod WorkedSources
