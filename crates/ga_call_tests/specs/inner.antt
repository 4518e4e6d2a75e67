-- What only the tests of this crate speak of.
pub mod Hands
