pub mod Hops
mod NamedNodes
mod NamedRoutes
pub mod Patched
pub mod Trees
mod Walk
mod WorkedBoots
