mod AllFaults
mod FirstFaults
mod Keeping
mod Moved
mod NamedNodes
mod Once
mod SamePlaces
mod Starting
pub mod TokensRead
mod WorkedFaults
mod WorkedOrder
mod WorkedSections
