pub mod Several
mod Opened
mod Entered
mod WorkedLines
