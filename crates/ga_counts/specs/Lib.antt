pub mod Counts
pub mod Heat
pub mod Columns
pub mod Row
pub mod Listing
pub mod inner
