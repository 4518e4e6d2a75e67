pub mod AddressLemmas
pub mod CellNumbers
pub mod Cells
pub mod Names
pub mod NodeDigits
pub mod NodeText
pub mod SideLemmas
pub mod WorkedPlaces
