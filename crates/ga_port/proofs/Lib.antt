pub mod Nodes
pub mod Rows
pub mod Runs
pub mod Steps
pub mod Shares
pub mod Ends
pub mod Moves
