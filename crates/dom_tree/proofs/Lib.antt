pub mod Finding
pub mod NodeSearch
pub mod Searching
pub mod SoundOrder
