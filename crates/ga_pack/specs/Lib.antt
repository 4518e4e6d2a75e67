pub mod Decoded
pub mod Encoding
pub mod Followers
pub mod Model
pub mod Reading
pub mod Slots
