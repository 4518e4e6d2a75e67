mod Needs
pub mod Rows
pub mod Loading
pub mod OwnSteps
mod Apart
mod Skips
mod Works
mod StackRing
mod WorkedNodes
mod WorkedSteps
mod WorkedLoader
pub mod Uncounted
pub mod Spun
mod WorkedSpins
