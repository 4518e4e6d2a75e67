pub mod TypedLines
pub mod Written
pub mod Undone
pub mod Saved
pub mod Turns
pub mod SoFar
