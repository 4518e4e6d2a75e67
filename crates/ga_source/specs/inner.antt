-- What only the proof of this crate speaks of: no contract of an exported function rests on it.
pub mod Meaning
pub mod Machine
pub mod Parser
pub mod Walk
pub mod Token
pub mod Program
