pub mod OneOutput
pub mod Reports
mod WorkedOutputs
mod WorkedSources
mod Sourcing
