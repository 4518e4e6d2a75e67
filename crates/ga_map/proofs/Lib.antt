pub mod Writing
mod Worked
