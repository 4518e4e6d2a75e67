-- What only the proof of this crate speaks of: no contract of an exported function rests on it.
pub mod Stepped
pub mod Traced
pub mod LastSteps
pub mod AllDepths
