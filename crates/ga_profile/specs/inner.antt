pub mod KeptPasses
pub mod PlaceRead
pub mod Trails
