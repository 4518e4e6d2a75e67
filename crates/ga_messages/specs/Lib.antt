pub mod Shown
pub mod Report
pub mod Json
pub mod Message
pub mod inner
