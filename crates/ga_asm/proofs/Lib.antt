pub mod LabelLists
mod Loose
mod Names
mod Summary
pub mod RightItems
mod LayingSteps
mod MakingSteps
pub mod Groups
mod Sections
pub mod RightNodes
pub mod OneAnswer
pub mod WorkedImages
mod WordPlaces
pub mod PlaceCount
pub mod Room
