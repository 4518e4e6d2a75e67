pub mod Word
pub mod Op
pub mod Hex
pub mod Text
