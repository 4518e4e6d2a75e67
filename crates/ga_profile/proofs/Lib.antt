pub mod Keeping
pub mod Passing
pub mod Ranking
pub mod Trailing
pub mod Writing
mod Shortening
mod Fewest
mod Worked
mod WorkedPath
mod WorkedLines
mod WorkedStacks
mod WorkedUnread
