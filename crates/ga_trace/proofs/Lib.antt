pub mod LastSteps
pub mod Tracing
pub mod Watching
pub mod FirstChange
pub mod FirstSteps
pub mod Stepping
pub mod Resting
pub mod Deepening
pub mod AllNodes
mod Worked
pub mod Unbroken
pub mod Spinning
