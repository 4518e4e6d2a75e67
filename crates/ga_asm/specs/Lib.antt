pub mod Error
pub mod Image
pub mod Assembling
pub mod Text
pub mod inner
pub mod Places
