-- What subcommands make of programs, by the page of its name.
pub mod ExpandJob
pub mod Listing
pub mod One
pub mod Asm
pub mod Dis
pub mod Boot
pub mod Run
