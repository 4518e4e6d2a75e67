pub mod Step
pub mod Seen
pub mod Counts
pub mod Laws
pub mod inner
