pub mod Plan
pub mod Workers
pub mod Laws
pub mod inner
