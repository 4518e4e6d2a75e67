pub mod Deeds
pub mod Watched
pub mod Moving
pub mod Quiet
pub mod Counting
pub mod Tried
mod WorkedSteps
