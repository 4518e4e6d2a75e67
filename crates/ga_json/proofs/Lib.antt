mod Plain
pub mod Arrays
