pub mod Disassembling
pub mod Printing
pub mod Source
pub mod Instructions
