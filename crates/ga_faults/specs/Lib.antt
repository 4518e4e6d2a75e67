pub mod Origin
pub mod Sections
pub mod Order
pub mod Faults
pub mod Laws
pub mod inner
