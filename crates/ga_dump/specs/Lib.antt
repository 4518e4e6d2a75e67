pub mod Row
pub mod Side
pub mod Node
pub mod Memory
pub mod Ledger
pub mod Chip
