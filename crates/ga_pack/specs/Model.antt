-- The source text, its meaning and how it is laid into words, over plain numbers and lists, for
-- every crate that reads, lays or prints it.
pub mod Text
pub mod Token
pub mod Source
pub mod SourceFault
pub mod Program
pub mod Layout
pub mod LayoutFault
