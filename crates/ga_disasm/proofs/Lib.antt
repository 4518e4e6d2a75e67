mod Stepping
pub mod Writing
mod TextLines
mod Meanings
mod SourceItems
mod Laying
mod RoundTrip
pub mod NamedItems
mod WorkedItems
