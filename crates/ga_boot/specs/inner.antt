-- What only the proof of this crate speaks of: no contract of an exported function rests on it.
pub mod Local
pub mod Plan
pub mod Script
pub mod TreePlan
