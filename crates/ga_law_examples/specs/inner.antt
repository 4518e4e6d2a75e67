pub mod FarFork
