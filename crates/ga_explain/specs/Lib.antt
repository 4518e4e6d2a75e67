pub mod Topic
pub mod Table
pub mod Output
