-- What only the proof of this crate speaks of: no contract of an exported function rests on it.
pub mod Layout
pub mod Making
pub mod Assembling
pub mod Image
