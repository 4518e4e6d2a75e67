pub mod Boot
pub mod Laws
pub mod Tree
pub mod inner
