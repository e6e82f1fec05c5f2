pub mod TreeText
pub mod NodeText
pub mod Appends
