-- What an input is, and its first fault, by the page of its name.
pub mod Fault
pub mod Meaning
pub mod TextFault
pub mod TranscriptFault
pub mod Text
pub mod Source
pub mod Tree
pub mod Loading
pub mod Session
pub mod Larger
pub mod Reading
pub mod Writing
