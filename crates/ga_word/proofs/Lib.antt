pub mod Find
pub mod HexDigits
pub mod HexFormat
pub mod OpCodes
pub mod TextLists
pub mod TokenLists
mod WorkedWords
