mod Completes
mod Steps
mod Exact
mod FaultKinds
mod Hex
mod Whole
mod Consistent
pub mod ParserSteps
pub mod ItemPlaces
mod Reading
pub mod Lines
mod Slices
mod Walking
mod Numerals
mod Names
