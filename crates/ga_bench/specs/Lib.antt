pub mod Input
pub mod Numbers
pub mod Saved
pub mod Status
