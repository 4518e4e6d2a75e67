-- What subcommands do with texts of commands, by the page of its name.
pub mod Transcript
pub mod FileReport
pub mod Replay
pub mod Debug
pub mod SourceName
pub mod Sourced
