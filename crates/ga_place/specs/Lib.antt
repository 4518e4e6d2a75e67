pub mod Node
pub mod Side
pub mod Address
pub mod Cell
pub mod inner
