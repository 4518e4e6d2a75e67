-- Messages about an input, by the page of its name.
pub mod Lines
pub mod Message
pub mod WordPlace
pub mod PlacedFault
pub mod ExpansionFault
pub mod LintJob
pub mod Listing
pub mod FileFaults
pub mod inner
