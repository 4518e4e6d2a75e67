pub mod Names
pub mod Route
pub mod Sequences
pub mod Stream
pub mod Tree
pub mod inner
