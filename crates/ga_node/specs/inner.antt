-- What only the proof of this crate speaks of: no contract of an exported function rests on it.
pub mod Work
pub mod Again
pub mod Going
pub mod Skip
pub mod Ahead
