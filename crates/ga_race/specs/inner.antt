pub mod Parts
pub mod Going
pub mod Ending
pub mod Watched
pub mod Adds
pub mod Way
