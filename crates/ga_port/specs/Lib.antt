pub mod Seat
pub mod Cells
pub mod Rule
pub mod inner
