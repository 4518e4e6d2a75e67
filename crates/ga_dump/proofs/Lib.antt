pub mod Lines
pub mod Characters
mod Worked
