pub mod Bodies
pub mod Names
pub mod Nearest
pub mod Size
pub mod Hints
pub mod Laws
pub mod inner
