-- What only the proof of this crate speaks of: no contract of an exported function rests on it.
pub mod Bits
pub mod Watch
pub mod Within
pub mod Port
pub mod Awake
pub mod Partner
pub mod Counts
pub mod Ahead
