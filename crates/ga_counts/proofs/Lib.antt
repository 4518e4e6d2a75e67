pub mod Heating
pub mod Keeping
pub mod OneListing
pub mod Rows
mod Worked
