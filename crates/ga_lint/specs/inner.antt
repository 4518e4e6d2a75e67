pub mod NodeText
