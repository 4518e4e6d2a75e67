pub mod Faults
pub mod OneInput
mod WorkedFaults
