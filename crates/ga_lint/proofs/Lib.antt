pub mod OneLint
mod Sections
mod Words
mod Worked
