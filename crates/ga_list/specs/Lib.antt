pub mod Reading
pub mod LineNames
pub mod Row
pub mod Listing
pub mod Labels
pub mod Lines
pub mod Laws
