pub mod Slots
pub mod Base
pub mod StartParts
