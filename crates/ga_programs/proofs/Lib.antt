mod Listed
mod Dealing
pub mod OneOutput
pub mod OneRun
mod Again
mod WorkedOutputs
