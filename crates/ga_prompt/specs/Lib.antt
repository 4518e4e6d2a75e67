pub mod Own
pub mod Request
pub mod Reading
pub mod Typed
pub mod Saving
pub mod Talk
pub mod Conversation
pub mod inner
