pub mod File
pub mod Error
pub mod Path
pub mod IncludeLine
pub mod Including
pub mod Laws
pub mod inner
