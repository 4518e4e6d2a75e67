pub mod Following
pub mod Joined
pub mod Fronts
pub mod OneTranscript
pub mod Recordings
pub mod Writing
pub mod Starting
pub mod Comparing
pub mod Lives
pub mod Comparisons
mod WorkedTranscripts
