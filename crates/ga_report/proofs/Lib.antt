pub mod Reading
pub mod Following
pub mod Lasting
pub mod Plain
pub mod Transferring
pub mod Numbering
mod Worked
