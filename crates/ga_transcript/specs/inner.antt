-- What only the proof of this crate speaks of: no contract of an exported function rests on it.
pub mod Line
pub mod Next
pub mod Excerpt
pub mod First
