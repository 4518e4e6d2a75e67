-- What only the proof of this crate speaks of: no contract of an exported function rests on it.
pub mod Command
pub mod Arguments
