pub mod Supplied
pub mod Cutting
pub mod Digits
pub mod ProfileTurns
pub mod Room
pub mod Sources
pub mod Heads
pub mod OneReplay
pub mod Loads
pub mod Turns
pub mod Passing
pub mod HexDigits
pub mod ValuesRead
mod WorkedSessions
