pub mod Ids
pub mod Searched
