pub mod Largest
pub mod Rings
pub mod RingRows
pub mod Writing
pub mod Following
pub mod Way
pub mod InOrder
pub mod InRing
mod WorkedReset
mod WorkedCauses
mod Worked
