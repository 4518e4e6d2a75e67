pub mod OneListing
mod Targets
mod Names
mod Listed
pub mod Rows
mod Writing
