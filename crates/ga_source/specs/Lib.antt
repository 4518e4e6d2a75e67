pub mod Token
pub mod Name
pub mod Error
pub mod Item
pub mod Section
pub mod inner
pub mod Program
