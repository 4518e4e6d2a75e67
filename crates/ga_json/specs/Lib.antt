pub mod Profile
pub mod Run
