pub mod KeptTransfers
pub mod Parts
pub mod Trails
